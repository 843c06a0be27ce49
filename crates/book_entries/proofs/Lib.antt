pub mod Places
pub mod Tests
pub mod GoodEntries
pub mod Listed
