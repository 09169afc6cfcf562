pub mod Rings
pub mod Tiles
