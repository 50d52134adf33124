-- The definitions that the contracts of `simplification` cite. To believe: Simplifying and Bounds (and of `tasks` Tasks, of
-- `arms` Looks, Arms and Ordered); Run only connects.
pub mod Simplifying
pub mod Bounds
pub mod Run
