pub mod InodeLaws
pub mod KindLaws
pub mod RangeLaws
