pub mod CostFaults
pub mod CertGroups
pub mod CertLaws
pub mod ListLaws
pub mod PartLaws
pub mod Putting
pub mod WholeLaws
