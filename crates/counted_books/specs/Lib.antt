pub mod Counted
pub mod Holding
