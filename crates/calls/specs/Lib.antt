-- The definitions that the contracts of `calls` cite. To believe: Calls, Marks, Origins, Lent and Promises; Frame only connects.
pub mod Lent
pub mod Calls
pub mod Marks
pub mod Origins
pub mod Promises
pub mod Frame
