pub mod AnchorsLemmas
mod GroupsLemmas
pub mod ToldLemmas
pub mod SoundLemmas
pub mod WatchLinesLemmas
pub mod Counting
pub mod Begun
pub mod Joined
pub mod Taken
pub mod Ended
