pub mod LateLaws
pub mod ClearanceLaws
