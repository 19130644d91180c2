-- What a replica logs.
pub mod Orders
pub mod Tallying
pub mod LeastLogged
pub mod Acks
pub mod Items
