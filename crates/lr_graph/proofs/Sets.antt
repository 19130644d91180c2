-- What is ready, and the value and the spots of a set of acceptances.
pub mod ReadySets
pub mod Values
pub mod KeptSpots
pub mod PutAt
