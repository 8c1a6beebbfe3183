pub mod Converting
pub mod Passes
