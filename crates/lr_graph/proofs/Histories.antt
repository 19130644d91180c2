-- What holds of whole histories.
pub mod Law
pub mod Orderings
pub mod Updates
pub mod Printable
pub mod Amounts
pub mod Fitting
pub mod OwnFits
pub mod PrintedFits
