-- Rows and points as the bytes of their records, and the run of a whole frame. Assumes nothing.
pub mod Read
pub mod Put
pub mod Phases
pub mod Points
pub mod Run
pub mod Kept
pub mod Local
pub mod Sizes
pub mod PhaseLaws
