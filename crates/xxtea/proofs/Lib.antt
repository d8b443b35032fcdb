-- The laws of the cipher that belong to no one function.
pub mod Laws
mod Walk
pub mod Inverse
pub mod Block
pub mod Numbers
pub mod Theorems
