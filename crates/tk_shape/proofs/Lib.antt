pub mod Uppers
pub mod Marking
pub mod Listings
pub mod Indexed
pub mod Refusals
pub mod Lasts
pub mod Ranges
pub mod Aborts
