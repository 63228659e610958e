-- The rules of docs/RULES.md on images, as definitions.
pub mod Image
pub mod Loading
pub mod Answers
