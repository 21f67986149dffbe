pub mod Phrase
pub mod Line
pub mod Count
