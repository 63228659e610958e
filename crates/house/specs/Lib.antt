-- The version of the boundary; all else that it answers is said by the definitions of the calls.
pub mod Version
