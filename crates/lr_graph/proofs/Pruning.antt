-- What leaves a replica, by the rules and by the definitions.
pub mod Rows
pub mod Lists
pub mod Spent
pub mod Elsewhere
pub mod Later
pub mod Spreading
pub mod Known
pub mod Once
pub mod Tables
pub mod Growing
pub mod Staying
