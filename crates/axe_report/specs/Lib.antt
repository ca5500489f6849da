pub mod Limits
pub mod Names
pub mod Reports
pub mod Spelling
pub mod Passing
pub mod Fronts
pub mod Reasons
