-- The definitions that the contracts of `rows` cite, and laws of them.
pub mod Values
pub mod Told
pub mod ToldLaws
pub mod ValueLaws
pub mod RowLaws
