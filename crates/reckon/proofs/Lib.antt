pub mod Estimates
pub mod Tested
