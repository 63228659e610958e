-- The card, R52 to R59: its layout, its records, its bytes, its reading, its twin, what reader and writer answer.
pub mod Bytes
pub mod Layout
pub mod Marked
pub mod Card
pub mod Reading
pub mod Twin
pub mod Answers
