-- Demand 3, proved. Assumes nothing.
pub mod Relistings
pub mod Keys
pub mod Laid
pub mod Alike
pub mod Examples
