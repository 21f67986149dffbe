-- Laws of the definitions in specs/, for this crate's proofs and for the crates above.
pub mod Need
pub mod Trials
pub mod Numbers
pub mod Alone
