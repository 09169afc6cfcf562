pub mod Sums
pub mod Products
pub mod Linear
pub mod Rows
pub mod WordBytes
pub mod Steps
pub mod Encoded
