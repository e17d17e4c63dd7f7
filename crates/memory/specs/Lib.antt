pub mod Fresh
pub mod Of
pub mod Turns
