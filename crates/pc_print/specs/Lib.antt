pub mod Generated
pub mod Parts
pub mod Canonical
pub mod Tokens
pub mod Same
pub mod SameItems
