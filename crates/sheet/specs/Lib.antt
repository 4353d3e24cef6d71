-- What the sheet call emits.
pub mod Contents
