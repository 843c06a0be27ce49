pub mod Says
pub mod GivenBack
