-- The laws of `moves` that belong to no one function.
pub mod AdvanceLaws
pub mod InsertLaws
