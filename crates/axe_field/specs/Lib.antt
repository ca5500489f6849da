pub mod Order
pub mod Arithmetic
pub mod Planes
pub mod CheckedLaws
pub mod NumberFields
pub mod Tables
pub mod Forms
