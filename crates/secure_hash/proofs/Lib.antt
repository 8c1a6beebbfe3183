pub mod Schedule
pub mod Held
pub mod Fours
pub mod Lengths
