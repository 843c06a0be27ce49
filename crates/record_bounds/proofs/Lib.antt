pub mod Fewer
pub mod Messages
