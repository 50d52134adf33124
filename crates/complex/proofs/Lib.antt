-- The laws that the proofs of this crate, and where `pub` of its callers, cite.
pub mod Answers
pub mod Tests
pub mod Doubles
pub mod Alike
pub mod Classes
pub mod Pairs
pub mod Magnitude
mod Cut
mod Scaling
mod Decide
mod Examples
