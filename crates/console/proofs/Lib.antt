-- The laws that the proofs of this crate, and where `pub` of its callers, cite.
pub mod Parts
pub mod Lines
pub mod Refusals
pub mod TapeLines
pub mod TapesBack
pub mod TapesOnly
