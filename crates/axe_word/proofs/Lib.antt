pub mod StoredLaws
pub mod DrawingLaws
pub mod TermLaws
pub mod PointPlaces
pub mod PointSums
pub mod ValueLaws
mod KeptLaws
pub mod MembershipLaws
pub mod ReducedNullSpaces
pub mod TestedLaws
