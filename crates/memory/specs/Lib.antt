-- The definitions that the contracts of `memory` and of those that lend a table cite. To believe: Rows, of which
-- "zero" is made, Marks, and in Layout how long the desk and the table are; the others only connect words with lists.
pub mod Keys
pub mod Layout
pub mod Marks
pub mod Rows
