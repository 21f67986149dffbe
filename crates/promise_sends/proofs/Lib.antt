pub mod Slot
pub mod Kept
pub mod Timely
pub mod After
pub mod Offer
pub mod Open
pub mod Arrived
