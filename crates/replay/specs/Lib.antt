-- The root of the definitions of `replay`.
pub mod Inputs
pub mod Text
pub mod Whole
