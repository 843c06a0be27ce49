pub mod ApduLaws
