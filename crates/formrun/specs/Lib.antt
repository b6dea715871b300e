-- What formrun reads and what it writes. Assumes nothing.
pub mod Reading
pub mod Output
