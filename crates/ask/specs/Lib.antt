-- What ask promises, when two requests agree, and what is gathered for the decision.
pub mod Asked
pub mod Agree
pub mod Gathered
