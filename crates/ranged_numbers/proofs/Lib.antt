pub mod NumberLaws
pub mod ChoiceLaws
pub mod Split
pub mod Places
