pub mod Tally
pub mod TallyLaw
