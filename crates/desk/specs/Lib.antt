pub mod Sizes
pub mod Desks
pub mod Issuing
pub mod Repeats
pub mod Runs
pub mod Shown
