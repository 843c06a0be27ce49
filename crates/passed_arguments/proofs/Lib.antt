pub mod PassedLaws
pub mod PlaceLaws
pub mod ArgumentLaws
