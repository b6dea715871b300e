-- Laws of what is put into a record. Assumes nothing.
pub mod Lengths
pub mod Same
pub mod Written
