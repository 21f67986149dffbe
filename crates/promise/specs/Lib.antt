pub mod Calls
pub mod Happened
pub mod Promise
pub mod Ours
