pub mod WalkLaws
pub mod EntryLaws
