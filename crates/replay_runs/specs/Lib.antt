-- The entries of the file `runs`. Assumes nothing.
pub mod Entries
