pub mod Certified
pub mod Stood
pub mod Begun
pub mod Points
