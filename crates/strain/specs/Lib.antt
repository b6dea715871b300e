-- Six-vectors and 6x6 matrices as flat lists. Assumes nothing.
pub mod Parts
pub mod Six
pub mod Matrix
pub mod Columns
