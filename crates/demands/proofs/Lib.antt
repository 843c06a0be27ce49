pub mod Kept
pub mod Each
pub mod Clean
pub mod Worked
pub mod OneDoor
