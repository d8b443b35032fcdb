-- The root of the definitions of `tag`.
pub mod Replies
pub mod Theorems
