-- The laws that the proofs of this crate, and where `pub` of its callers, cite.
pub mod Shortening
pub mod Beside
pub mod BesideLine
pub mod Plain
pub mod Ignoring
mod Examples
pub mod OneAnswer
