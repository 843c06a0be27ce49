pub mod NodeLaws
pub mod SequenceLaws
pub mod ChoiceLaws
