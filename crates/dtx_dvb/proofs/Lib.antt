mod RandomizerLemmas
pub mod StreamLemmas
pub mod ReadingLemmas
pub mod BackLemmas
mod SyncLemmas
pub mod CountsLemmas
mod BurstLemmas
pub mod Blocks
pub mod Giving
pub mod Batch
