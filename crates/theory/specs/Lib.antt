-- What the theory speaks of: a table and a request that no ground refuses, and what a run of the pump keeps.
pub mod Fine
pub mod Given
