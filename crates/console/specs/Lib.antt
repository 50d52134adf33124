-- The definitions that the contracts of `console` cite. To believe: Parting, Answers, TapeText; Slices only connects.
pub mod Parting
pub mod Answers
pub mod TapeText
pub mod Slices
