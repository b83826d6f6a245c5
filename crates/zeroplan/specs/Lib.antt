pub mod Reply
pub mod ReplyLaws
