pub mod HeadLaws
pub mod SendLaws
pub mod UnlistedLaws
