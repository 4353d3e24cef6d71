-- The grammar that the contracts cite, and a test; the laws that join them; how many bytes are looked at, and the laws that join the
-- test to that; what reading a byte does; worked cases.
pub mod Utf8
pub mod Utf8Laws
pub mod LookedLaws
pub mod Looked
pub mod Parts
pub mod TextCases
