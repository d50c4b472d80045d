pub mod MonthLaws
pub mod StartLaws
pub mod DayLaws
