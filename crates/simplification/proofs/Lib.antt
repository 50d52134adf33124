-- The laws that the proofs of this crate, and where `pub` of its callers, cite.
mod Carrying
pub mod Operating
pub mod Ordered
pub mod Shapes
pub mod Counting
pub mod Tallying
pub mod Machine
pub mod Marking
pub mod Asking
pub mod Unused
pub mod Computing
pub mod Pi
pub mod Stored
pub mod OneAnswer
pub mod Inherited
