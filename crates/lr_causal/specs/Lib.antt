pub mod Causal
pub mod GossipLaws
pub mod Parts
pub mod Savepoint
pub mod State
pub mod Acks
