pub mod ReadingLaws
pub mod SaysLaws
