pub mod LightLaws
pub mod HoldsLight
pub mod HoldsClosed
pub mod HoldsLaws
pub mod SinceLaws
pub mod HistoryLaws
pub mod EndLaws
pub mod ChainLaws
