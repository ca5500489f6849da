pub mod Sections
pub mod Runs
pub mod Series
pub mod Theorems
