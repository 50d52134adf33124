-- What the contracts of `call_cases` cite: when a case of the public calls counts as right.
pub mod Judging
