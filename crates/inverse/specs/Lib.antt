-- The inverse of a 6x6 matrix. Assumes nothing.
pub mod Inverse
pub mod Cases
pub mod Pivot
pub mod Elimination
pub mod Factors
pub mod Falling
