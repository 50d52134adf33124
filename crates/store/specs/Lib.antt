-- The definitions that the contracts of `store` cite. To believe: Storing and Origins. The others only connect rows and desk with trees.
pub mod Words
pub mod Nodes
pub mod Storing
pub mod Origins
pub mod Memory
pub mod Desk
pub mod Hash
pub mod Index
pub mod Held
pub mod Tracing
pub mod Walk
pub mod Numbers
