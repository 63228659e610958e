-- The laws of the answer, of what is gathered for it, and of requests that agree.
pub mod Deciding
pub mod Packing
pub mod LastGrounds
pub mod Agree
pub mod Right
pub mod Edges
