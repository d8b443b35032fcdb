-- The root of the definitions of `hosts`.
pub mod Joining
