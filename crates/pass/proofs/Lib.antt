-- The laws of the pass: one end, the last end, what the pass says, a line's next end, the lines that end at a tick, the lines at their first ends, and the ticks in order.
pub mod Point
pub mod LastEnd
pub mod Passing
pub mod NextEnd
pub mod TakingEnds
pub mod LinedUp
pub mod Order
pub mod Edges
