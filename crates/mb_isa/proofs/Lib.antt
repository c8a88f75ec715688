pub mod CostRange
pub mod Inverse
pub mod Following
pub mod Charging
pub mod Turning
