-- The definitions that the contracts of `sentences` cite. To believe: Sentences; Table only connects.
pub mod Sentences
pub mod Table
