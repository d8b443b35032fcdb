-- The laws of `reply_lines` that belong to no one function.
pub mod Laws
