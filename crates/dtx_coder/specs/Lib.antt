pub mod Stream
pub mod Groups
pub mod Batches
pub mod Runs
pub mod Along
