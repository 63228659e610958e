-- What admit promises.
pub mod Admits
