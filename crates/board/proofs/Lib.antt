-- The laws of the board: the bits of the ready word, the ranges of the lamp, and its edges.
pub mod Word
pub mod Blinks
pub mod Edges
