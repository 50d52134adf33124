-- The definitions that the contracts of `evaluation` cite. To believe: Evaluating, Using and Reals; Run only connects.
pub mod Evaluating
pub mod Using
pub mod Reals
pub mod Run
