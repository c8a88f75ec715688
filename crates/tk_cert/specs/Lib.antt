pub mod CostTables
pub mod Shapes
pub mod Text
pub mod Reading
pub mod Whole
pub mod Form
pub mod Demands
