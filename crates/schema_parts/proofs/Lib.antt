pub mod MemberLaws
pub mod LeafLaws
