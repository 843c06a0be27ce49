pub mod Stand
pub mod Rest
pub mod Writes
