-- What is measured of a card, and what stands in the buffer.
pub mod Laid
pub mod Measured
