pub mod RunLaws
pub mod AttemptLaws
pub mod InnerLaws
pub mod WindowLaws
pub mod SizeLaws
pub mod FrameLaws
