pub mod NodeLaws
pub mod TestLaws
pub mod DepthLaws
