pub mod RestLaws
pub mod EntranceLaws
pub mod LineLaws
pub mod Begun
pub mod SmallLaws
