pub mod FileLaws
pub mod FusedLaws
pub mod NameLaws
pub mod SameFiles
pub mod SourceLaws
pub mod ShelfLaws
pub mod SinkLaws
