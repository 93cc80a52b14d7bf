pub mod Sessions
pub mod Replies
pub mod Advancing
pub mod ReplyLines
pub mod Scripts
pub mod Laws
pub mod private
