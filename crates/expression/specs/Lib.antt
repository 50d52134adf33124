-- The definitions that the contracts of this crate and of its callers cite. Nodes only connects; the others are to be believed.
pub mod Codes
pub mod Trees
pub mod Alike
pub mod Limits
pub mod Nodes
pub mod Refusals
