pub mod Told
pub mod Step
pub mod Steady
pub mod Kept
pub mod Held
pub mod Sound
pub mod Never
