-- What both elastic rows share. Assumes nothing.
pub mod Strain
pub mod Columns
pub mod Cell
