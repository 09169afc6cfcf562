pub mod Recurrence
pub mod Rows
