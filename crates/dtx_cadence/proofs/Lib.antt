pub mod NextAnchorLemmas
pub mod AnchoredLemmas
pub mod NextPlace
