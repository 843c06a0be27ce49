pub mod Sizes
pub mod Telling
pub mod Passes
pub mod Moving
