-- The laws of the table that an admission leaves, and which answers and tables are allowed.
pub mod Placing
pub mod Right
pub mod Edges
