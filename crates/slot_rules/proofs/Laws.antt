pub mod Head
pub mod Best
pub mod Pick
pub mod Rows
pub mod Next
pub mod Ends
pub mod Sends
pub mod Ready
