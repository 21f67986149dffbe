mod Shapes
pub mod Ground
pub mod Response
pub mod Store
pub mod SetUp
pub mod Sound
pub mod Open
pub mod Slot
pub mod Offer
pub mod Byanghosu
pub mod Script
