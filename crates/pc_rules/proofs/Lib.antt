pub mod Each
pub mod Chains
pub mod Passages
pub mod OverThreads
pub mod Tall
pub mod Walks
pub mod Counts
pub mod VerdictFacts
mod Phases
pub mod Readings
