-- What a phase does not assign stays. Assumes nothing.
pub mod Beside
pub mod Impulses
pub mod Back
pub mod Finite
pub mod Updates
pub mod Sweeps
pub mod Skipped
pub mod Frames
pub mod Velocities
