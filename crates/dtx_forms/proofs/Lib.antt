pub mod AllowedFileLemmas
pub mod AnswersLemmas
mod DamagedLemmas
pub mod FilePacketsLemmas
pub mod NumbersLemmas
pub mod OfWordsLemmas
pub mod PerformedLemmas
mod PlanFileLemmas
pub mod StagesLemmas
pub mod WordsLemmas
pub mod Apart
pub mod SmallFile
