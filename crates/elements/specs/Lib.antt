pub mod Elements
pub mod Unlisted
