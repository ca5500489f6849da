pub mod Directory
pub mod FileName
pub mod Files
pub mod Fused
pub mod Memory
pub mod Outcomes
pub mod Reading
pub mod Shelf
