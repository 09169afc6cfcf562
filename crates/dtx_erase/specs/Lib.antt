pub mod Mending
pub mod Marks
pub mod Mended
pub mod Sides
