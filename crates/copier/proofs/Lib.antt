pub mod StartLaws
pub mod StepLaws
pub mod FiveLaws
pub mod ReadyLaws
