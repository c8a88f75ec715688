pub mod Certified
pub mod CodeRooms
pub mod Sums
pub mod StoodLaws
pub mod PointLaws
pub mod BegunLaws
pub mod FirstLaws
