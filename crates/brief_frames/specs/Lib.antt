pub mod Bare
pub mod Briefs
