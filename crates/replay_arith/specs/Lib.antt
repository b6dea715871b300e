-- What each record of the oracle's stored answers to the arithmetic says. Assumes nothing.
pub mod OfReal
pub mod OfVector
pub mod OfMatrix
pub mod OfStrain
pub mod OfShape
pub mod Agrees
