pub mod NumbersLemmas
pub mod RunsLemmas
pub mod WordsLemmas
pub mod SlightLemmas
pub mod AllBackLemmas
pub mod PlacesLemmas
mod UndamagedLemmas
pub mod LevelsLemmas
pub mod ApartLemmas
pub mod FromSyncLemmas
pub mod NoDamageLemmas
pub mod ReceivedLemmas
