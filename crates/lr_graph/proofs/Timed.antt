-- Times of copies and of acknowledgements.
pub mod Changes
pub mod Keeping
pub mod Steps
pub mod Along
