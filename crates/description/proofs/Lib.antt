-- The laws of sheets, and which descriptions have one.
pub mod Laws
pub mod Fit
