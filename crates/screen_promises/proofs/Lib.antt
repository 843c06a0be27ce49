pub mod NumbersBack
pub mod Signs
pub mod TextsBack
