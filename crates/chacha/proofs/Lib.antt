pub mod Lengths
pub mod Columns
