-- The laws of what the pump driver holds.
pub mod Keeps
pub mod Edges
