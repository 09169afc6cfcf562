pub mod Trellis
pub mod Groups
pub mod Lanes
