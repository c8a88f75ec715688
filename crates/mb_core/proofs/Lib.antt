pub mod Phases
pub mod Listings
