-- The theorems about the judges: what it means that one says yes.
pub mod Judging
