pub mod Indices
pub mod FrequencyLaws
