pub mod Vectors
pub mod Texts
