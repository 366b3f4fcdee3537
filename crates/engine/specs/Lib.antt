pub mod Answers
pub mod Service
pub mod Rows
