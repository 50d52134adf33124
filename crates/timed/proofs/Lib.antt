-- The theorems about the packing: a refusal tells its number, and is no other answer; and two answers that a contract allows are one.
pub mod Telling
pub mod OneAnswer
pub mod Lining
