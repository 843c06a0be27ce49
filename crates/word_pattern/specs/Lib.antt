pub mod Pattern
