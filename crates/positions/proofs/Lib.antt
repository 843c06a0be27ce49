pub mod PositionLaws
pub mod UnreadLaws
