-- The definitions that the contracts of `origins` cite. To believe: Fields and Standing; Words only connects.
pub mod Fields
pub mod Words
pub mod Standing
