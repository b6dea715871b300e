-- Laws of the run. Assumes nothing.
pub mod Moves
