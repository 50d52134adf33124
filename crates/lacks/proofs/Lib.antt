-- The laws that the proofs of this crate cite, and the theorems about what is named.
mod Naming
mod Going
mod Jobs
mod Stepping
mod Examples
pub mod Incomplete
pub mod OnTapes
pub mod OneAnswer
pub mod Rooms
