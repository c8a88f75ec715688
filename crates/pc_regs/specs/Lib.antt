pub mod Placement
pub mod Words
pub mod Represents
pub mod Writings
pub mod Counts
pub mod Assignment
pub mod Laws
