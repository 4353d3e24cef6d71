-- What an emitter does.
pub mod Emit
pub mod Laws
