-- The entries of the file `frames`. Assumes nothing.
pub mod Entries
