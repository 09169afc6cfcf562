pub mod LogText
pub mod Symbols
