pub mod Actions
pub mod Coordinates
pub mod LeadingColumns
pub mod FreeColumns
pub mod Blocks
pub mod KnownRows
