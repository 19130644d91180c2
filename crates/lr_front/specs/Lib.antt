pub mod Kept
pub mod Replies
pub mod Done
pub mod Undoing
pub mod FrontLaws
