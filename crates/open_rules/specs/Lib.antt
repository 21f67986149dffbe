pub mod Request
pub mod Asked
pub mod Search
pub mod Shares
pub mod Join
pub mod Refusal
pub mod Open
