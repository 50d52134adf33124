-- The definitions that the contracts of `outcomes` cite. To believe: Outcomes; Coming only connects.
pub mod Outcomes
pub mod Coming
