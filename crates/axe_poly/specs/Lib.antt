pub mod Polys
pub mod Limits
pub mod Powers
pub mod Numbering
pub mod Tables
pub mod Lanes
pub mod Sieve
pub mod Divisors
