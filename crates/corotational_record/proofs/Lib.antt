-- Laws of the corotational row on its record. Assumes nothing.
pub mod Parted
