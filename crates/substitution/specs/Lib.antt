-- The definitions that the contracts of `substitution` cite. To believe: Substituting; Run only connects.
pub mod Substituting
pub mod Run
