-- The definitions that the contracts of `exports` cite. To believe: Words.
pub mod Words
