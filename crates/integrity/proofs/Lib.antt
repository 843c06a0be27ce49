pub mod IntegrityLaws
