pub mod Fields
pub mod Texts
pub mod Script
pub mod Faults
pub mod CutLaws
