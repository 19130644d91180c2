pub mod Shapes
pub mod Sound
pub mod Posts
pub mod Outboxes
pub mod Parts
pub mod Pending
pub mod Worlds
