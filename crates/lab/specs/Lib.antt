pub mod Numbers
pub mod Looks
pub mod Status
pub mod Clocks
pub mod Classes
pub mod Given
