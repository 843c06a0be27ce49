pub mod Data
pub mod Unlisted
