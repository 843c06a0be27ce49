pub mod SoFar
pub mod Notes
