pub mod SequenceLaws
pub mod BodyLaws
