pub mod Pins
pub mod LeastPinned
pub mod PinnedField
pub mod Steps
pub mod Walks
pub mod Trace
pub mod Told
