-- The bytes of the parts of a sheet, and the names that are near.
pub mod Parts
pub mod Names
pub mod Emitted
