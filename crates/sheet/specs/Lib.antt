-- The definitions that the contracts of `sheet` cite. To believe: Rows and Without. The others only connect code and lists of rows.
pub mod Rows
pub mod Without
pub mod Seen
pub mod Index
pub mod Table
