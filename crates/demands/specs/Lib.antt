pub mod Promises
pub mod Clean
pub mod Worked
