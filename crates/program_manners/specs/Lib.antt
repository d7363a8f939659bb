pub mod Answers
pub mod TableLoads
pub mod TableViews
pub mod TableWords
pub mod TablesFaults
pub mod Words
