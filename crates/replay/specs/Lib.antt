-- The words of a record of the oracle's stored answers. Assumes nothing.
pub mod Words
pub mod Tallies
pub mod Counts
