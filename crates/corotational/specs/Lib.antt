-- The corotational row. Assumes nothing.
pub mod Corotational
pub mod Row
