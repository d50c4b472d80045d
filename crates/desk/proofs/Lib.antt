pub mod DeskLaws
pub mod CopiedLaws
pub mod LockLaws
