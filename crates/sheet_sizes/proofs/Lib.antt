-- Laws that the proofs cite.
mod CountLaws
mod SizeLaws
mod TreeLaws
mod MemberLaws
mod ChainLaws
mod BaseLaws
mod TypeLaws
pub mod RefusalLaws
mod CallLaws
