pub mod Phrases
pub mod Found
