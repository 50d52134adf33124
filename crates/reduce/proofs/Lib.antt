-- The laws that the proofs of this crate cite; that what is printed is determined; and 01's example, proved.
mod Printing
mod OneAnswer
mod Examples
pub mod OutRoom
