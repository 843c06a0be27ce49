pub mod HeadLaws
pub mod PartLaws
pub mod FrameLaws
pub mod BriefLaws
