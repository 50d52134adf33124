-- The definitions that the contracts of `faults` cite. To believe: Faulting.
pub mod Faulting
