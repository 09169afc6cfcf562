pub mod Counts
pub mod Foreseen
pub mod MemoryShelf
pub mod MemorySink
pub mod Refusals
pub mod Shelf
pub mod Sink
