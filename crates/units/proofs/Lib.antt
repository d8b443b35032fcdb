-- The laws of `units` that belong to no one function.
pub mod Laws
pub mod FormLaws
