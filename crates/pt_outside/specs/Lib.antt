pub mod Counts
pub mod Files
pub mod Kept
pub mod Told
pub mod Sent
