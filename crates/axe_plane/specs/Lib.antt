pub mod Primes
pub mod Planes
pub mod Addends
pub mod FlatTables
pub mod Tables
pub mod NumberWords
pub mod Sums
