-- What the proofs of rows_ffi cite. Assumes nothing.
pub mod Alone
