pub mod Member
pub mod Owed
