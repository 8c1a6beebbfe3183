pub mod Summary
pub mod Room
pub mod Looking
pub mod Filing
pub mod Calls
