pub mod Parts
pub mod Ways
pub mod Plans
pub mod Low
pub mod Small
