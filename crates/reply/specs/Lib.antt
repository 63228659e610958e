-- The line of an answer, R61 and R62.
pub mod Line
