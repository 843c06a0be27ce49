pub mod Entries
pub mod Book
pub mod Left
