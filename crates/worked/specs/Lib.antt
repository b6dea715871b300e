-- The worked examples. Assumes nothing.
pub mod Sheets
pub mod Table
