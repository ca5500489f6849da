pub mod Polynomials
pub mod PolynomialValues
pub mod PolynomialsOfLists
pub mod PolynomialTheorems
pub mod PolynomialValueTheorems
pub mod PolynomialListTheorems
pub mod MonicListTheorems
