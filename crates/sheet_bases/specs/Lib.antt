-- The bytes of the parts of a type, what it is based on among them.
pub mod Bases
pub mod Types
