pub mod CleanLaws
pub mod NoneBegins
pub mod OneWay
pub mod Listed
pub mod Worked
