pub mod Refiner
