-- The description of a library, its sheet, and the laws of sheets.
pub mod Format
pub mod Description
pub mod Fields
pub mod Sheet
pub mod ByteLayout
pub mod Fit
pub mod Figures
pub mod Edges
