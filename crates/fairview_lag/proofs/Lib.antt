pub mod StretchSteps
pub mod LagLaws
pub mod ColumnSteps
pub mod PanelSteps
pub mod PairSteps
pub mod LagsRefused
