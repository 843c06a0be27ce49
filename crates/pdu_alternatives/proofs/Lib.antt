pub mod AlternativeLaws
