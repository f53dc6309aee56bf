pub mod Outcomes
pub mod Texts
pub mod Answers
pub mod Runs
