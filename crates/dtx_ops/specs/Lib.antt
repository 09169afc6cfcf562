pub mod Paging
pub mod Spelling
pub mod Fields
pub mod Reading
