-- The laws of the table: the counts, the choice, the step, leaving, the cases and the edges.
pub mod Counts
pub mod Choice
pub mod Acts
pub mod Step
pub mod LettingGo
pub mod Order
pub mod Edges
pub mod Cases
pub mod Faults
pub mod StepCases
pub mod LastCases
pub mod LeaveCases
