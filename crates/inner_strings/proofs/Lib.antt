pub mod StringLaws
