pub mod HearingLaws
pub mod RowLaws
