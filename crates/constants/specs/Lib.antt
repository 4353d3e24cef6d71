-- The definitions that the contracts of `constants` cite, and the laws that callers use of them.
pub mod Constants
pub mod ConstantLaws
