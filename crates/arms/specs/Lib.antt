-- The definitions that the contracts of `arms` cite. To believe: Looks, Arms and Ordered, which has 01's arms as one list and the first match in it.
-- Only connecting: Tables, what the code follows, which is proved to be that first match; and Choosing.
pub mod Looks
pub mod Arms
pub mod Ordered
pub mod Tables
pub mod Choosing
