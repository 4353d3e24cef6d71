-- What is counted of a sheet.
pub mod Counts
pub mod Counted
pub mod Trees
pub mod Functions
pub mod Told
