-- The laws that the proofs of this crate cite.
mod Seeking
mod Indexing
mod Ordering
mod Placing
mod Entering
mod Parsing
mod Taking
mod Finding
pub mod Numbering
pub mod Shortening
mod Sheets
mod Examples
pub mod OneAnswer
