-- Laws of the definitions. Assumes nothing.
pub mod Halves
pub mod Ties
