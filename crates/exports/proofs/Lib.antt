-- The laws that the proofs of this crate cite, and the theorems about its calls.
mod Answers
pub mod OneAnswer
pub mod Demand
pub mod Capacity
