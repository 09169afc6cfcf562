pub mod GrowsLemmas
pub mod LastLifeLemmas
pub mod OwnLemmas
pub mod PlaceOfLemmas
pub mod PlacesLemmas
pub mod Stands
