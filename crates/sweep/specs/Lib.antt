-- One row's step in a frame, and the sweeps. Assumes nothing.
pub mod Laid
pub mod Joined
