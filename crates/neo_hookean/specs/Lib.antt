-- The neo-Hookean row. Assumes nothing.
pub mod NeoHookean
pub mod Row
