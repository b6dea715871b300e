-- What both elastic rows share on the bytes of a record. Assumes nothing.
pub mod Anew
pub mod Rows
