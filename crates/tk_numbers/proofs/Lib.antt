pub mod Values
pub mod Straight
pub mod LoopNumbers
pub mod Tests
pub mod Lines
pub mod Rooms
pub mod Before
pub mod SmallSections
