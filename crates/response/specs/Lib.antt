pub mod Need
pub mod Trials
pub mod Right
pub mod Numbers
pub mod Alone
