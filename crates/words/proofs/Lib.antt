pub mod Rotation
pub mod Numbers
pub mod Rooms
pub mod Library
pub mod Sums
pub mod WrittenOut
