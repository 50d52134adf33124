-- What the contracts of `replay` cite: when a replayed case counts as right.
pub mod Judges
