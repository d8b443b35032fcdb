-- The root of the definitions of `moves`.
pub mod Moves
