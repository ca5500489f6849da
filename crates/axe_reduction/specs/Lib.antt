pub mod Augmented
pub mod AugmentedRows
pub mod Forms
pub mod Reductions
pub mod Solutions
