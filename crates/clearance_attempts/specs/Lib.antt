pub mod Excused
