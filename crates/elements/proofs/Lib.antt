pub mod ElementLaws
pub mod UnlistedLaws
