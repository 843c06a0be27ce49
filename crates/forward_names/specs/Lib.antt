pub mod Names
pub mod Forwarded
