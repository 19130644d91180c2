pub mod DigitsApart
pub mod FieldsApart
pub mod StatesApart
pub mod OutcomesApart
pub mod HistoriesApart
pub mod LegalApart
pub mod ScriptsFit
pub mod PrintedLemmas
