-- What a call answers, and what lent bytes hold then.
pub mod Results
pub mod Cards
pub mod Tables
pub mod Moves
