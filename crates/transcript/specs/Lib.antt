pub mod Text
pub mod Lines
pub mod Columns
pub mod Writing
