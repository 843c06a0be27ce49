pub mod IndexLaws
pub mod LeafLaws
pub mod LettersLaws
