-- The lines gathered, and what their sums decide.
pub mod Lines
pub mod Weighed
