pub mod TallyCounts
pub mod TallySteps
pub mod GateSteps
pub mod HeldSteps
pub mod Gains
pub mod SumSteps
