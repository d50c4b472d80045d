pub mod ChainLaws
pub mod NamingLaws
pub mod FitLaws
pub mod CutLaws
pub mod FewLaws
