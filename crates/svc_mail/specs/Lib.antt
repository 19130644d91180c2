pub mod Mail
pub mod MailLaw
