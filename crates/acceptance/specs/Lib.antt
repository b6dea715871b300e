-- What check's answers say of a frame. Assumes nothing.
pub mod Whole
pub mod Given
pub mod Faults
