-- The root of the definitions of `command_log`.
pub mod Next
