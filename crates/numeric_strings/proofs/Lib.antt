pub mod SpacingLaws
