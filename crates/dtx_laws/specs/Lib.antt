pub mod Codeword
pub mod Words
pub mod Register
pub mod Whitening
pub mod Branches
pub mod Interleaving
pub mod Locator
