-- The definitions that the contracts of `shown` cite. To believe: Showing; Told only connects.
pub mod Showing
pub mod Told
