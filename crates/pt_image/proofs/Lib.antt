pub mod AbortLaws
pub mod FreshLaws
pub mod GroupLaws
pub mod ImageGroups
pub mod ImageLaws
pub mod PointLaws
pub mod Putting
pub mod WholeLaws
