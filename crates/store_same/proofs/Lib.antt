pub mod Same
pub mod Settled
pub mod Numbers
