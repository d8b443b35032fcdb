-- The laws of `reads` that belong to no one function.
pub mod Laws
