pub mod CameLaws
pub mod NumberLaws
pub mod StringLaws
pub mod LetterLaws
