pub mod Bits
pub mod Types
pub mod Encoding
pub mod Range
