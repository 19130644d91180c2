pub mod Applied
pub mod Executing
pub mod Remembered
pub mod Table
pub mod Waiting
