pub mod Back
pub mod Damaged
pub mod LogLines
pub mod Orders
