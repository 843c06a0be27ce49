pub mod LoadLaws
pub mod Ready
pub mod FitLaws
