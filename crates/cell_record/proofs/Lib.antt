-- Laws of the elastic rows on their records. Assumes nothing.
pub mod Joined
pub mod Posed
