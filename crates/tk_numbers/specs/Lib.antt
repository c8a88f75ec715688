pub mod Charges
pub mod Units
pub mod Nexts
pub mod Routines
