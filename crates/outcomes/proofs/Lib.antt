-- The laws that the proofs of this crate cite, and that what is printed is determined.
pub mod Telling
pub mod Following
pub mod OneAnswer
