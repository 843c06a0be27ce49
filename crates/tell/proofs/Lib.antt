pub mod WideningLaws
pub mod EightLaws
pub mod CharacterLaws
pub mod TextsTold
pub mod NumeralLaws
