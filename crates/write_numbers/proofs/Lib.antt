pub mod FrontLaws
pub mod NumberLaws
