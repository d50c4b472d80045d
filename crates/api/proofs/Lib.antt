pub mod MaskLaws
pub mod ResultLaws
pub mod CodeLaws
pub mod Exports
