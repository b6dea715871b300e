-- Laws of the neo-Hookean row on its record. Assumes nothing.
pub mod Moved
pub mod Parted
