-- One row on the bytes of its record. Assumes nothing.
pub mod Widths
