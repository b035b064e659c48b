pub mod Replies
