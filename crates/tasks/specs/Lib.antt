-- The definitions that the contracts of `tasks` cite. To believe: Tasks; Deciding only connects.
pub mod Tasks
pub mod Deciding
