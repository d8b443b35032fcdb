-- The root of the cipher's definitions.
pub mod Xxtea
pub mod Block
pub mod Claims
pub mod Numbers
pub mod Theorems
