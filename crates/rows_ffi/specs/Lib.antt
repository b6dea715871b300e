-- What the exports on a record's bytes answer. Assumes nothing.
pub mod Mirrors
pub mod Record
