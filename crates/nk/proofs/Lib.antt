pub mod Filling
pub mod Texts
pub mod Turning
