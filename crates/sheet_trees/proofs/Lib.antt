-- Laws that the emitters cite.
pub mod NameLaws
pub mod PartLaws
pub mod TreeLaws
