pub mod InodeLaws
pub mod ChainLaws
