pub mod Play
pub mod At
