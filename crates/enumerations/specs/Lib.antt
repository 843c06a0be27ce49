pub mod Records
pub mod Readers
