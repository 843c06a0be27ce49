pub mod Space
pub mod Told
pub mod Moves
