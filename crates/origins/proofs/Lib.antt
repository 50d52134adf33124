-- The laws that the proofs of this crate and of its callers cite, and worked examples.
pub mod Reading
pub mod Lengths
pub mod Writing
pub mod Ending
pub mod Packing
pub mod Sentences
pub mod Examples
