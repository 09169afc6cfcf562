pub mod Outer
pub mod Inner
