-- Stamps, and the sets of acceptances that they stand for.
pub mod Central
pub mod StampSets
