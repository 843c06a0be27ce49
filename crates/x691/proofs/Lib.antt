pub mod BitLaws
pub mod Widths
pub mod Unique
