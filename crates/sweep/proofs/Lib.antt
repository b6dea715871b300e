-- The steps and sweeps in place are the rules on lists of rows and points. Assumes nothing.
pub mod InFrame
pub mod Rooms
pub mod Steps
pub mod Sweeps
pub mod Turns
pub mod Apart
