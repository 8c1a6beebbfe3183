pub mod Computed
pub mod WrongKeepers
