-- The definitions that the contracts of `records` cite, and the laws that callers use of them.
pub mod Answer
pub mod AnswerLaws
pub mod Layout
pub mod Automation
pub mod Record
pub mod RecordLaws
pub mod Counted
pub mod Attributes
pub mod AttributeLaws
pub mod Told
pub mod Varenum
pub mod Types
pub mod TypesLaws
