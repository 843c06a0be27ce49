pub mod LogonLaws
