pub mod LineLaws
pub mod Digits
pub mod Parts
pub mod Returned
pub mod FourDigits
pub mod WrittenBack
