pub mod SureLaws
pub mod AmpleLaws
