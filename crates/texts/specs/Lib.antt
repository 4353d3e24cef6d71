-- The definitions that the contracts of `texts` cite, and the laws that callers use of them.
pub mod Stores
pub mod Text
pub mod TextLaws
pub mod Types
pub mod TypesLaws
pub mod Guid
pub mod GuidLaws
