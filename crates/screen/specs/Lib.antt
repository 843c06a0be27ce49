pub mod Placed
pub mod Screen
