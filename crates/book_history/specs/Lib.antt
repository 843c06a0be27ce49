pub mod History
pub mod Left
pub mod Keeps
