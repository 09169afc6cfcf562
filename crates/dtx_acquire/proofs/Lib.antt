pub mod PlacesLemmas
pub mod AgreementLemmas
pub mod SyncsLemmas
pub mod FieldsLemmas
mod StepsLemmas
mod Chunks
pub mod AcquiredLemmas
pub mod Packing
pub mod Windows
pub mod Moved
pub mod Levels
pub mod Each
pub mod Leaving
mod Fit
pub mod WholeLemmas
pub mod SentLemmas
pub mod NearLevels
pub mod NearPaths
pub mod NearSyncs
pub mod NearRows
pub mod NearGroups
pub mod NearStream
pub mod Silence
pub mod GivenSegments
pub mod GivenFields
