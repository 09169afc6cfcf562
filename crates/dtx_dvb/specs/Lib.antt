pub mod Randomizer
pub mod Stream
pub mod Read
pub mod Reading
pub mod Given
pub mod Damage
