-- What a history promises to its clients.
pub mod Changes
pub mod Again
pub mod Walk
pub mod Points
pub mod Sessions
pub mod Later
pub mod Alike
pub mod Rounds
pub mod Spoken
