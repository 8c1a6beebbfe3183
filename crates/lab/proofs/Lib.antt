pub mod Digits
pub mod LookLines
pub mod ClockDigits
pub mod HexWords
pub mod Asked
