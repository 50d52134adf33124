-- The laws that the proofs of this crate cite; that what is printed is determined; and what `rack evaluate` prints, by the public call.
pub mod Choosing
pub mod Requests
pub mod Resulting
pub mod Rooms
pub mod Shown
pub mod Answering
pub mod FirstWord
pub mod Accepted
pub mod OneAnswer
pub mod Evaluates
