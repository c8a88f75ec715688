pub mod Operators
pub mod Bytes
pub mod First
pub mod Spelling
pub mod Reading
pub mod Forms
pub mod Steps
pub mod Reads
