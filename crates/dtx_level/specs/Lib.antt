pub mod Shown
pub mod Syncs
pub mod Levelled
pub mod Measures
pub mod Standing
pub mod Leveller
