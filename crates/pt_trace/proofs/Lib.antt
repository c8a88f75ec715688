pub mod Answering
pub mod Cutting
mod Decimals
mod Keeping
pub mod Chaining
mod Scanning
