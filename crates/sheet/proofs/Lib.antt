-- Laws that the emitters cite.
pub mod ContentLaws
pub mod CallLaws
