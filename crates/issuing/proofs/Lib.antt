pub mod Passes
pub mod Halves
pub mod Streams
pub mod Strokes
pub mod Demands
