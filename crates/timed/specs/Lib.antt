-- What the contracts of `timed` cite: how answers are packed, and what each call ensures. Nothing else stands on it.
pub mod Packed
pub mod Promises
pub mod Reading
