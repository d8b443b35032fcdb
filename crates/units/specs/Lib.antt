-- The root of the definitions of `units`.
pub mod Decoded
pub mod Rights
