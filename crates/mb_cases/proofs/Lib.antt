pub mod Seen
pub mod Examples
pub mod Configured
