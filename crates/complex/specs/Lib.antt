-- The definitions that the contracts of `complex` cite. To believe: Arithmetic, Bits, Equality, Zero, Constants.
-- Only connecting: Classes and Parts, which no public contract mentions.
pub mod Arithmetic
pub mod Bits
pub mod Equality
pub mod Zero
pub mod Constants
pub mod Classes
pub mod Parts
