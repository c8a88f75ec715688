pub mod Written
pub mod Sizes
pub mod Lowered
pub mod Whole
