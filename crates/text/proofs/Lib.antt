-- The laws that the proofs of this crate and of its callers cite.
pub mod Running
pub mod Putting
pub mod RoundTrip
pub mod Only
pub mod Fields
pub mod Shortening
pub mod Lining
pub mod OneAnswer
