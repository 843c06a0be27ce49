pub mod Place
pub mod Formats
