pub mod Excitation
pub mod Levelling
pub mod Reception
pub mod Repetition
pub mod Restorer
pub mod Softening
pub mod StreamCoder
pub mod Watching
