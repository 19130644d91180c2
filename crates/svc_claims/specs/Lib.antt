pub mod Claims
pub mod ClaimsLaw
