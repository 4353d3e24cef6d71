-- What is emitted of the members of a type, and of types one behind the other.
pub mod Bodies
pub mod Lists
pub mod Room
pub mod Words
pub mod Emitted
