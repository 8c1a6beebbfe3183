pub mod Running
pub mod Turns
pub mod Whole
pub mod Cutting
pub mod Columns
pub mod LedgerOfBits
