-- The laws of the calls: what is read and loaded, the run, the operations; what follows for bytes; the edges.
pub mod Said
pub mod Run
pub mod Operations
pub mod Theorems
pub mod CaseA
pub mod Edges
pub mod Faults
