pub mod NameLaws
pub mod HeaderLaws
pub mod Identifiers
