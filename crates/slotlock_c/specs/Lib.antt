pub mod Records
pub mod Reports
pub mod Cuts
pub mod Plays
