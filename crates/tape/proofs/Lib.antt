-- The laws that the proofs of this crate, and where `pub` of its callers, cite.
pub mod Checking
pub mod Ways
pub mod Demand
pub mod Depth
pub mod Prefixes
pub mod Emitting
pub mod Stacks
pub mod Marking
pub mod Standing
pub mod SameRows
pub mod Asking
pub mod Unused
pub mod OneAnswer
