-- The rules of docs/RULES.md on the board, as definitions.
pub mod Board
