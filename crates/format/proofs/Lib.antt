pub mod FormatLaws
pub mod FreshLaws
pub mod Numbers
