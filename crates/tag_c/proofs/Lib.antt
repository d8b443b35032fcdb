-- The laws of `tag_c` that belong to no one function.
pub mod Laws
