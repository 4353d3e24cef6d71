-- Laws that the emitters cite.
pub mod MemberLaws
pub mod ParameterLaws
pub mod WordLaws
