-- The definitions that the contracts of `impltypes` cite, and the laws that callers use of them.
pub mod Search
pub mod Chain
pub mod ChainLaws
