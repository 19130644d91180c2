pub mod Acks
pub mod Stamps
pub mod Split
pub mod Puts
pub mod Log
pub mod Ranged
pub mod Within
