mod Counting
pub mod Fronts
mod MeanStepping
pub mod Ports
mod Reports
mod Stepping
pub mod Written
