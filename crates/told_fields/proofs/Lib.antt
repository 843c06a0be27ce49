pub mod DoesLaws
pub mod ChoiceLaws
pub mod ListLaws
pub mod RunLaws
