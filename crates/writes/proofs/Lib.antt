-- The laws of `writes` that belong to no one function.
pub mod JudgeLaws
pub mod ActLaws
