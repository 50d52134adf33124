-- The laws that the proofs of this crate, and where `pub` of its callers, cite.
pub mod Valued
pub mod Used
pub mod Settled
mod Parts
mod Examples
pub mod OneAnswer
pub mod Known
pub mod Asking
pub mod Unused
