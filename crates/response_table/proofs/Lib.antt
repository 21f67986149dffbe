pub mod Numbers
pub mod Replies
