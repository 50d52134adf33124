-- The laws that the proofs of this crate, and where `pub` of its callers, cite. Ordered says that the code's tables choose as 01's list does.
pub mod Looking
mod Choosing
pub mod Ordered
pub mod OneAnswer
