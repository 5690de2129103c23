pub mod RunBounds
pub mod CarrierSteps
pub mod CollectSteps
pub mod Fitting
pub mod NextSteps
pub mod CarrierCalls
pub mod CarrierCounts
pub mod CarrierStages
