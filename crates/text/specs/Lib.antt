-- The definitions that the contracts of this crate and of its callers cite. To believe: Letters, Reading, Lines, Writing; Seen, Put and Digits
-- only connect.
pub mod Letters
pub mod Reading
pub mod Lines
pub mod Digits
pub mod Writing
pub mod Seen
pub mod Put
