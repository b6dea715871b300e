-- Rows of one colour that name one point. Assumes nothing.
pub mod Clash
pub mod Marks
