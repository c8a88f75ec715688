pub mod Steps
pub mod Levels
pub mod Firsts
pub mod Points
pub mod Judged
pub mod Verdicts
pub mod Reached
