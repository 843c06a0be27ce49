pub mod GoodNames
