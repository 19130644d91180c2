pub mod Faults
pub mod Seen
pub mod Calls
pub mod Keepers
pub mod Memory
