pub mod Certificates
pub mod Reasons
pub mod Steps
