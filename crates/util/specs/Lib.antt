-- The definitions that the contracts of `util` cite, and the laws that callers use of them.
pub mod Read
pub mod Real
