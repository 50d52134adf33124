-- The laws that the proofs of this crate, and where `pub` of its callers, cite.
pub mod Deciding
pub mod OneAnswer
