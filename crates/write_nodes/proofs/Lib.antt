pub mod NodeLaws
pub mod KnotLaws
