pub mod FrameLaws
pub mod ConstrainedLaws
