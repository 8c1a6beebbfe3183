pub mod Classes
pub mod Promise
pub mod Runs
