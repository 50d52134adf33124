-- The definitions that the contracts of `marks` cite. To believe: Marking.
pub mod Marking
