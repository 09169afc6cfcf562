pub mod Sums
pub mod Reduction
pub mod Kept
