pub mod ApartWords
pub mod TwoRows
pub mod TwoFactors
