-- A row of each kind. Assumes nothing.
pub mod ByKind
