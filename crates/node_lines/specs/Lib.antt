-- The definitions that the contracts of `node_lines` cite. To believe: NodeLines, and Without, which only theorems cite; Seen only connects.
pub mod NodeLines
pub mod Without
pub mod Seen
