-- The laws of the sums: lists given by their numbers, sums term by term, and which ground holds first.
pub mod Along
pub mod Zipped
pub mod Adding
pub mod Weighing
pub mod Edges
