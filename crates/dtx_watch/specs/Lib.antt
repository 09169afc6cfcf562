pub mod Clock
pub mod Notes
pub mod Watch
pub mod Step
pub mod Kept
pub mod Sound
pub mod WatchText
