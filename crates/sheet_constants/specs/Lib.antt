-- The bytes of constants.
pub mod Told
pub mod Bytes
pub mod Laws
pub mod Emitted
