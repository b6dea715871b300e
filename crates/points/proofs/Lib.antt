-- Points in a frame are the rules on lists of points. Assumes nothing.
pub mod Bridge
pub mod Fits
pub mod Moved
