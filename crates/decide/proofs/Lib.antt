-- The laws of the decision: which case of it holds, and what it says of a list of slots.
pub mod Deciding
pub mod Ticks
pub mod Matching
pub mod Edges
