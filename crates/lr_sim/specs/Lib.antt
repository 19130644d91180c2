pub mod Headline
pub mod Ends
pub mod Services
pub mod Parts
