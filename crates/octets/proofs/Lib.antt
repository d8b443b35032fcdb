-- The laws of `octets` that belong to no one function.
pub mod Laws
