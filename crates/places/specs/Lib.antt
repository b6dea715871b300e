-- The four places of a row. Assumes nothing.
pub mod Places
