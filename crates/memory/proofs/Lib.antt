-- The laws that the proofs of this crate, and where `pub` those of its callers, cite.
pub mod Slices
pub mod Values
pub mod Ascending
pub mod Marks
pub mod OneAnswer
mod Seeking
