pub mod ReaderLaws
pub mod One
