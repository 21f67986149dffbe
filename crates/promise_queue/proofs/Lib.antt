pub mod Ends
pub mod More
pub mod Head
pub mod Few
pub mod Keep
pub mod Packets
