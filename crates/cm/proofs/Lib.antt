pub mod EntryLaws
pub mod DirectionLaws
