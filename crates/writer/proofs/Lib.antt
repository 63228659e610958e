-- The laws of the writer: bytes behind bytes, and the loops over the slots.
pub mod Laid
pub mod Slots
pub mod Whole
