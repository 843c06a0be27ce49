pub mod Heard
pub mod Kinds
pub mod Octets
pub mod Rows
pub mod Table
