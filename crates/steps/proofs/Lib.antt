-- The laws that the proofs of this crate, and where `pub` of its callers, cite.
pub mod Reading
pub mod Writing
pub mod Knowing
pub mod Inverse
