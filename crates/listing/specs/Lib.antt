-- The definitions that the contracts of `listing` cite. To believe: Listings (and of `node_lines` NodeLines); Tables only connects.
pub mod Listings
pub mod Tables
