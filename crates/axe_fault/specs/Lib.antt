pub mod Faults
pub mod Causes
pub mod Printed
