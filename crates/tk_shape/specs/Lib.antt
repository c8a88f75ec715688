pub mod Refused
pub mod Children
pub mod Asking
pub mod Marked
pub mod Looking
pub mod Calling
