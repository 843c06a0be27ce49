pub mod WriterLaws
pub mod One
pub mod Back
