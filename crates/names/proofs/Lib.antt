pub mod NameLaws
pub mod TestLaws
pub mod EntryLaws
pub mod LegalLaws
pub mod FoldLaws
