pub mod CodingLemmas
pub mod WordsLemmas
pub mod MadeLemmas
pub mod BackLemmas
pub mod Coding
pub mod Runs
pub mod Ahead
