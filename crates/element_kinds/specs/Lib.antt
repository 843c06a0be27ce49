pub mod Agreed
pub mod Kinds
