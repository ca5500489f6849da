pub mod Words
pub mod Bytes
pub mod Entries
pub mod Trits
pub mod Runs
pub mod Multiples
