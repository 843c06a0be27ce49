pub mod Pdus
