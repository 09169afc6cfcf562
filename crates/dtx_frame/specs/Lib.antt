pub mod Segments
pub mod Detection
