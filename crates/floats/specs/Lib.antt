-- Vectors, matrices and lists of floats at a byte of a record. Assumes nothing.
pub mod Fields
pub mod Written
