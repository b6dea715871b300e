-- Laws of whole frames. Assumes nothing.
pub mod Accepts
pub mod Scans
pub mod Answered
