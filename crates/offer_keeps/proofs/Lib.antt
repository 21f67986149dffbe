pub mod Frame
pub mod Order
pub mod Held
pub mod Sound
pub mod Own
pub mod Next
