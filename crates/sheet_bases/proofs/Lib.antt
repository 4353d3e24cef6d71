-- Laws that the emitters of types and of what they are based on cite.
pub mod BaseLaws
pub mod TypeLaws
