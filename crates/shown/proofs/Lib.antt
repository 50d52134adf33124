-- The laws that the proofs of this crate cite, and worked examples.
pub mod Pieces
pub mod Turns
pub mod Examples
