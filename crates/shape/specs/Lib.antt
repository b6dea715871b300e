-- The shape of a cell of four particles. Assumes nothing.
pub mod Rotation
pub mod Cell
pub mod Worked
