pub mod Sure
pub mod Ample
