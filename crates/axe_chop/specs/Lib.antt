pub mod Stages
pub mod Vectors
pub mod Kept
pub mod Searches
pub mod Chopped
pub mod Answers
pub mod Reported
