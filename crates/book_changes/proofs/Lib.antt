pub mod ChangeLaws
pub mod Orderly
pub mod LaidLaws
