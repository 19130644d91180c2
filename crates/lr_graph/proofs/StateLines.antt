-- The state line of a replica.
pub mod Listing
pub mod CallLists
pub mod Shown
