-- The laws of `layout` that belong to no one function.
pub mod Laws
