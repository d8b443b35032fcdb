-- The laws of `command_log` that belong to no one function.
pub mod Laws
