pub mod Feed
pub mod Filling
pub mod Adapting
