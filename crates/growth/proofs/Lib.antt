pub mod FileFrame
pub mod ZeroLaws
pub mod RowFrame
pub mod ResizeLaws
pub mod TakenLaws
pub mod CutLaws
pub mod ImageLaws
