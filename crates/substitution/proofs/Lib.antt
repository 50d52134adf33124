-- The laws that the proofs of this crate, and where `pub` of its callers, cite.
pub mod Settling
pub mod Replacing
mod Examples
pub mod OneAnswer
