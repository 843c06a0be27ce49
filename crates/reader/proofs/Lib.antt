pub mod Rules
pub mod One
