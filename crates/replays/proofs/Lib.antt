pub mod Transcripts
pub mod Converted
pub mod Columns
pub mod LedgerOfBits
