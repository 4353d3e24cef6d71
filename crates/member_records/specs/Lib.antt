-- What a reply tells.
pub mod Told
