pub mod CopyLaws
pub mod KeptLaws
