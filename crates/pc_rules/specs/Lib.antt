pub mod Known
pub mod Nests
pub mod Weights
pub mod Sizes
pub mod Judging
pub mod Faults
pub mod Sources
pub mod Verdicts
