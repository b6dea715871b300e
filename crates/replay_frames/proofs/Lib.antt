-- Laws of the definitions. Assumes nothing.
pub mod Batches
pub mod Cases
