pub mod AppendedLemmas
pub mod GivenFewLemmas
pub mod Pushed
pub mod Told
