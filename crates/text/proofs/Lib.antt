pub mod ListLaws
pub mod PieceLaws
pub mod NumberLaws
pub mod HexLaws
pub mod PutLaws
