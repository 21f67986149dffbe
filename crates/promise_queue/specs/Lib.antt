pub mod Keep
pub mod Queue
