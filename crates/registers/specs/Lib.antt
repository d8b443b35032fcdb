-- The root of the definitions of `registers`.
pub mod Registers
