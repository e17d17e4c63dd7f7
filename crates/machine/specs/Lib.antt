pub mod Answers
pub mod Codes
pub mod Unmade
pub mod Words
pub mod Machine
pub mod Serial
pub mod Laws
