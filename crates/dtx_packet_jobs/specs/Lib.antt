pub mod DvbReading
pub mod Feeding
pub mod Laying
pub mod Placing
