pub mod Listing
pub mod Buffer
