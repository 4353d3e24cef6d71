-- The definitions that the contracts of `cursors` cite, and the laws that callers use of them.
pub mod Cursors
pub mod CursorLaws
pub mod Numbers
pub mod NumberLaws
pub mod Told
