-- How a run starts. Assumes nothing.
pub mod Start
