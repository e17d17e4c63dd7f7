pub mod Encodings
pub mod Keywords
pub mod Listed
pub mod Numerals
pub mod Totals
