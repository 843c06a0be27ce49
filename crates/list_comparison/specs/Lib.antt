pub mod Compared
pub mod First
