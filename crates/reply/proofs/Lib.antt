-- The laws of the line: its digits, the line as a whole, and the bytes that the code lays down.
pub mod Digits
pub mod Line
pub mod Laid
pub mod Edges
