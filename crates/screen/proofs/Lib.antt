pub mod PlaceLaws
pub mod ScreenLaws
