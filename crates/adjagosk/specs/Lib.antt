pub mod Gives
pub mod Frames
