-- The laws that the proofs of this crate cite, what the definitions come to, and worked examples.
pub mod Numbering
pub mod Fields
pub mod Examples
