pub mod ListLaws
pub mod AmpleLegs
