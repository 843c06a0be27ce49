pub mod EntryLaws
pub mod JudgeLaws
pub mod Exactly
