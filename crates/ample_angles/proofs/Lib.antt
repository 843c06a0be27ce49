pub mod AngleLaws
pub mod PairLaws
