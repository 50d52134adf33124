-- The laws that the proofs of this crate, and where `pub` of its callers, cite.
pub mod Numbers
pub mod Taking
pub mod Shortening
pub mod Whole
pub mod Plain
pub mod Ignoring
mod Naming
mod Examples
pub mod OneAnswer
