-- Tests, and elements of lists.
pub mod Tests
pub mod Members
pub mod Places
pub mod Ascents
