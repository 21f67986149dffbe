pub mod Fresh
pub mod Granted
pub mod Seen
pub mod Keys
pub mod Steady
pub mod Bounds
