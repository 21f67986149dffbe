pub mod Head
pub mod Pick
pub mod Slot
pub mod Idle
