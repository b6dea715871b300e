-- Functions of one or two f32. Assumes nothing.
pub mod Float
pub mod Real
pub mod SinCos
pub mod Acos
pub mod Sign
pub mod Worked
