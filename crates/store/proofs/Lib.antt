-- The laws that the proofs of this crate, and where `pub` of its callers, cite.
pub mod Places
mod Coding
pub mod Trees
mod Keys
mod Hashing
mod Walks
mod Packing
pub mod Seeking
mod Links
pub mod Rows
pub mod Noting
pub mod Building
pub mod Asking
mod Measuring
mod Growing
mod Adding
mod Keeping
pub mod Stored
pub mod OneAnswer
pub mod Settling
pub mod Tracing
