-- The definitions that the contracts of `writing` cite. To believe: Order and Origins; Ordering only connects.
pub mod Order
pub mod Origins
pub mod Ordering
