pub mod ChainLaws
pub mod BlockLaws
pub mod PlainLaws
pub mod NamedLaws
