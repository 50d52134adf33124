-- The definitions that the contracts of `lacks` cite. To believe: Lacking; Run only connects.
pub mod Lacking
pub mod Run
