-- What the structs of the C interface stand for. Assumes nothing.
pub mod FourVectors
