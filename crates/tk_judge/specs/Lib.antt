pub mod Small
pub mod Asks
pub mod Answers
