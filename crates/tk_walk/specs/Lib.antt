pub mod Walks
pub mod Listing
pub mod Going
pub mod Phases
pub mod Building
