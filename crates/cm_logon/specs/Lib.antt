pub mod Etd
