-- The laws of the reader's loop.
pub mod Loop
