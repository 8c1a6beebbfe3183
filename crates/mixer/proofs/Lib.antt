mod Twist
pub mod Mixes
pub mod Blocks
