-- What the pump driver holds after a step.
pub mod Driven
