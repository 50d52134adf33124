-- The definitions that the contracts of `commands` cite. To believe: Words, Results, Help, Printing; Asking, Coming and Needing only connect.
pub mod Words
pub mod Results
pub mod Help
pub mod Printing
pub mod Asking
pub mod Coming
pub mod Needing
