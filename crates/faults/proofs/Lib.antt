-- The laws that the proofs of this crate cite, and what the faults say of the readers: ListingLines, SheetLines, Agreement.
mod Telling
pub mod Passing
pub mod ListingLines
pub mod SheetLines
mod Places
pub mod Feeding
pub mod Agreement
mod Examples
