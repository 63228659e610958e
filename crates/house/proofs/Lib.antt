-- The edge of the version; the boundary's other laws are those of the calls.
pub mod Edges
