mod History
mod Packets
mod Network
mod Invariant
mod Opened
mod Next
mod Holds
mod Rows
mod Events
mod Open
mod Offer
mod Slot
mod Own
mod Arrives
mod Skip
mod Picked
mod Slots
pub mod Promise
