pub mod CallLaws
pub mod FitLaws
