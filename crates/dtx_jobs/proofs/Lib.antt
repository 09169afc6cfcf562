mod CodeLemmas
pub mod GivenLemmas
pub mod GivingLemmas
mod LevelLemmas
mod LivesLemmas
pub mod MendLemmas
pub mod ReceiveLemmas
pub mod ReceivedLemmas
pub mod RepeatLemmas
pub mod SoftLemmas
mod SofteningLemmas
pub mod SplicedSymbolsLemmas
pub mod StreamBackLemmas
pub mod SymbolFileLemmas
pub mod SymbolsBackLemmas
mod WatchLemmas
pub mod BytesOf
pub mod LevelledFiles
pub mod LifeOn
pub mod LivesOn
pub mod Tallied
pub mod WatchedFeed
pub mod WatchedText
