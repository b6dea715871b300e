-- The sweeps of a run (Steps), and demand 3 over any steps that go by their row and the points that it names. Assumes nothing.
pub mod Steps
pub mod Access
pub mod Sweep
pub mod Relist
pub mod Build
pub mod Check
pub mod Stored
