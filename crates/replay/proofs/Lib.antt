-- Lemmas, the walk over a file by offsets, and what words a record has past its end. Assumes nothing.
pub mod Compared
pub mod Filling
pub mod Offsets
pub mod Zeros
