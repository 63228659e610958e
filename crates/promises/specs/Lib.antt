-- The promises, readable without their proofs.
pub mod Operations
pub mod Demand1
pub mod Demand2
pub mod Demand3
pub mod Late
pub mod Last
pub mod Counted
pub mod Images
pub mod Witnesses
pub mod Example
pub mod Excluded
