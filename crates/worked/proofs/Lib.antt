-- That the worked examples hold. Assumes nothing.
pub mod Whole
