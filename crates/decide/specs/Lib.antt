-- The lines gathered, what is decided of them, and the lines of a list of slots.
pub mod Lines
pub mod Decided
