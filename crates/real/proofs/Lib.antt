-- Laws of the definitions. Assumes nothing.
pub mod Turn
-- What the definitions come to, case by case. Assumes nothing.
pub mod Laws
