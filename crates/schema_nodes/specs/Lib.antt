pub mod Row
pub mod Names
pub mod Refusal
pub mod Depths
