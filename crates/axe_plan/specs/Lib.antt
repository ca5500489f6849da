pub mod Plans
pub mod Meanings
pub mod Inputs
pub mod Outputs
pub mod Outcome
pub mod Drafts
pub mod ReportFiles
