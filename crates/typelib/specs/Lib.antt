-- The definitions that the contracts of `typelib` cite, and the laws that callers use of them.
pub mod Tabulate
pub mod Header
pub mod HeaderLaws
pub mod Tables
pub mod TableLaws
pub mod Names
pub mod TypeInfos
pub mod TypeInfoLaws
pub mod Nine
pub mod Descriptors
pub mod DescriptorLaws
pub mod References
pub mod ReferenceLaws
pub mod Told
