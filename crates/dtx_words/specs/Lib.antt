pub mod Fitting
pub mod Line
pub mod Names
pub mod Printed
pub mod Rows
