-- Applying what is ready.
pub mod Taking
pub mod SettlingSteps
pub mod Settling
pub mod Keys
