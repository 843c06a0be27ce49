pub mod Clearance
pub mod Attempts
