-- The theorems on check's answers. Assumes nothing.
pub mod Parsing
pub mod Wholes
pub mod Pairs
pub mod Numbers
pub mod Reaching
pub mod Meets
pub mod Earliest
pub mod InTurn
pub mod Cases
pub mod Givens
pub mod Finites
