pub mod LineLaws
pub mod PhraseLaws
pub mod TextLaws
