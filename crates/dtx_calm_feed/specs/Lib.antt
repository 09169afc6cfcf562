pub mod Said
pub mod Calm
pub mod Own
