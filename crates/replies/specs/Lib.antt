-- The definitions that the contracts of `replies` and of the exports cite, and laws of them.
pub mod Call
pub mod At
pub mod CallLaws
pub mod ParseLaws
pub mod LayLaws
pub mod Written
