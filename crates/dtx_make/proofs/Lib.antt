pub mod LaidLemmas
mod DamagedPlacesLemmas
pub mod EntriesLemmas
pub mod LaidBytesLemmas
pub mod StreamsLemmas
pub mod Joined
