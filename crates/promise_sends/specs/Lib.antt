pub mod Sends
pub mod Log
