-- Vectors, 3x3 matrices by columns and quaternions, by value. Assumes nothing.
pub mod Vector
pub mod Matrix
pub mod Quaternion
pub mod Worked
