pub mod InverseLemmas
pub mod JoinsLemmas
pub mod PlacesLemmas
pub mod Slices
pub mod LaneSteps
pub mod Stores
pub mod Ends
