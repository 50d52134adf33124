-- The laws that the proofs of this crate, and where `pub` of its callers, cite.
pub mod Orders
pub mod Visiting
pub mod LineTexts
pub mod AllText
pub mod Texts
pub mod TracedLines
pub mod TracedTexts
pub mod LineParts
pub mod FirstLine
pub mod ReadBack
pub mod Fits
pub mod Lengths
pub mod Stripping
pub mod Standing
mod Examples
pub mod OneAnswer
