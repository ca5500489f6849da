pub mod PlaneLaws
pub mod FourMultiples
pub mod TableLaws
pub mod PlaneWords
pub mod SumLaws
pub mod SumMultiples
pub mod PlacedDigits
mod SmallNumbers
mod RemainderTables
