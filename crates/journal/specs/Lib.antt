pub mod Found
pub mod Layout
pub mod Reading
pub mod Header
pub mod Walking
pub mod Writing
pub mod Cutting
