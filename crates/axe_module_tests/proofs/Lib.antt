pub mod ActedSpans
