-- The laws that the proofs of this crate, and where `pub` of its callers, cite, and the theorems about its public calls.
mod Copying
pub mod Framing
mod Taping
pub mod Lining
pub mod Refusing
pub mod OneAnswer
pub mod Results
pub mod Stored
pub mod Accepted
pub mod ReadBack
pub mod Demand
pub mod MarkLists
pub mod Examples
pub mod OutRoom
pub mod Begins
pub mod Rooms
pub mod Capacity
pub mod TapeBytes
pub mod MarkedDemand
pub mod UnusedRows
pub mod Answering
pub mod Given
pub mod Ignored
pub mod Beside
pub mod Demands
