-- The laws that the proofs of this crate, and where `pub` of its callers, cite.
pub mod Numbering
pub mod Likeness
pub mod Sizes
pub mod Carrying
pub mod Under
pub mod OneNode
pub mod Passing
mod Examples
