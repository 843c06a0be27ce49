pub mod DataLaws
pub mod AmpleHeader
pub mod UnlistedLaws
