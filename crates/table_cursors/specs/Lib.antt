-- The definitions that the contracts of `table_cursors` cite, and the laws that callers use of them.
pub mod Cursors
pub mod CursorLaws
pub mod Members
pub mod MemberLaws
pub mod NumberLaws
pub mod TableEnds
pub mod Told
