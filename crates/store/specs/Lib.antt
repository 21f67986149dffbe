pub mod Layout
pub mod Amounts
pub mod Route
pub mod Sound
pub mod Ranged
