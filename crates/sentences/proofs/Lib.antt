-- The laws that the proofs of this crate cite.
pub mod Entries
pub mod Filling
pub mod Saying
