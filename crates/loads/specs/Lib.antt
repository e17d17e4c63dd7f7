pub mod Numbers
pub mod Answers
pub mod Begins
pub mod Keys
pub mod Names
