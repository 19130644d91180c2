-- How a run by the rules and the facts of its history belong together.
pub mod Ties
pub mod Relation
pub mod More
