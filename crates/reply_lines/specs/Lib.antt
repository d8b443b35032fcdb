-- The root of the definitions of `reply_lines`.
pub mod Lines
