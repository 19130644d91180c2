pub mod Texts
pub mod Printed
pub mod Tellable
pub mod PrintedLaws
