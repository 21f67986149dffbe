-- Laws of the store's rows.
pub mod There
pub mod Walk
