pub mod FillLaws
pub mod WorkedLines
