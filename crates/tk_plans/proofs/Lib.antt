pub mod Fits
pub mod PartLaws
pub mod ChildLaws
pub mod WayLaws
pub mod PieceLaws
pub mod LowLaws
