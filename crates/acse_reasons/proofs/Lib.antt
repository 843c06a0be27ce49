pub mod GrowLaws
pub mod FormatLaws
pub mod NoteLaws
