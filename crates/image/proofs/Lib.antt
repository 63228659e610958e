-- The laws of images: running lines, numbers of eight bytes, series, the search for a wrong byte, the loops over slots and counts; the round trips, the refusals, the edges.
pub mod RunKinds
pub mod Eight
pub mod Series
pub mod ReadsBack
pub mod WritesBack
pub mod Exactly
pub mod Stored
pub mod Judging
pub mod Filling
pub mod Refusals
pub mod Edges
pub mod LastEdges
