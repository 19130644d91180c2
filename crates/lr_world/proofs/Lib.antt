pub mod Everywhere
pub mod Outboxing
pub mod Answering
pub mod Shaped
pub mod Reading
mod RunLemmas
pub mod Histories
pub mod Fitting
pub mod Begun
pub mod FrontActs
