pub mod Forms
pub mod Matches
pub mod Following
pub mod Images
