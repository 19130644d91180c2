-- The facts that a program gathers of a history, and what it finds in them.
pub mod TableLemmas
pub mod ToldLists
pub mod Gathering
pub mod Reading
pub mod SlowLists
