-- What the exports reply and write, and the laws that their proofs use.
pub mod Rows
pub mod Sheets
