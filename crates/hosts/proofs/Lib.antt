-- The laws of `hosts` that belong to no one function.
pub mod RowLaws
pub mod FitLaws
pub mod SlotLaws
pub mod InsertLaws
