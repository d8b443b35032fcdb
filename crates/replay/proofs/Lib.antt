-- The laws of `replay` that belong to no one function.
pub mod TextLaws
pub mod WholeLaws
