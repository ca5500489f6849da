pub mod Bits
pub mod Digits
pub mod Packed
pub mod Words
pub mod Earlier
pub mod Supports
pub mod Lanes
pub mod Runs
