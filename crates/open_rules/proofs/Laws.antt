-- Laws of the definitions in specs/, for the crates above.
pub mod Facts
pub mod Outcome
pub mod Passed
pub mod Search
pub mod Ranged
pub mod Eight
pub mod Written
pub mod Row
pub mod Rows
pub mod Join
pub mod Shares
pub mod Delays
