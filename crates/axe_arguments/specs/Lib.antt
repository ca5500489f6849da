pub mod Limits
pub mod Commands
pub mod Counts
pub mod Names
pub mod Layouts
