pub mod Laws
pub mod Vectors
pub mod Digits
pub mod Columns
pub mod Writing
