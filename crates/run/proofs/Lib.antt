-- An accepted frame is ready to be swept, and what the sweeps leave is the run of the rules. Assumes nothing.
pub mod Calm
pub mod Runs
pub mod Written
