pub mod Index
pub mod Lent
