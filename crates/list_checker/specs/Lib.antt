pub mod Entered
pub mod Checks
pub mod Clean
pub mod Judged
