pub mod Folds
pub mod Adding
pub mod Chains
