pub mod Words
pub mod Names
pub mod Keywords
pub mod Numbers
pub mod Scans
pub mod Counts
