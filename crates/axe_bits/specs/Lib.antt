pub mod Combinations
pub mod FlatTables
pub mod Trits
