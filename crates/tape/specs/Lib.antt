-- The definitions that the contracts of `tape` cite. To believe: Tapes, Playing and Using; Run only connects.
pub mod Tapes
pub mod Playing
pub mod Using
pub mod Run
