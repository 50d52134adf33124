-- The definitions that the contracts of `spelling` and of all that reads or writes names cite. To believe: Names.
pub mod Names
