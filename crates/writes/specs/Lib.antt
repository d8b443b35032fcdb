-- The root of the definitions of `writes`.
pub mod Verdict
