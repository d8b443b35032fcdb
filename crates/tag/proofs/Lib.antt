-- The laws of `tag` that belong to no one function.
pub mod Laws
pub mod RunLaws
pub mod Theorems
