pub mod AllowedLaws
pub mod MapLaws
pub mod View
pub mod FrameLaws
pub mod ViewLaws
pub mod KthLaws
pub mod LongLaws
