pub mod RestLaws
pub mod FrontLaws
pub mod GotLaws
pub mod PenLaws
pub mod PartLaws
pub mod MemberLaws
pub mod ListLaws
