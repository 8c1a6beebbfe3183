pub mod Mixing
pub mod Extracting
