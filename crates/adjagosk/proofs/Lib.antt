pub mod GivesLaws
pub mod FrameLaws
