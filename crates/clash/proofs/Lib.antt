-- Laws of the clash test. Assumes nothing.
pub mod Alone
pub mod Places
pub mod Marking
pub mod Turns
pub mod Rows
