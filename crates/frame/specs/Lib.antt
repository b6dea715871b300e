-- Whole frames: their parts, and what check answers. Assumes nothing.
pub mod Frames
pub mod Check
