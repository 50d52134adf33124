-- The definitions that the contracts of `steps` cite. To believe: Steps; Same only connects, in proofs.
pub mod Steps
pub mod Same
