-- The definitions that the contracts of `reduce` cite. To believe: Reducing.
pub mod Reducing
