pub mod GroupsLemmas
pub mod FeedsLemmas
pub mod PagesLemmas
mod PacketPagesLemmas
pub mod TurnsLemmas
mod MakingLemmas
mod Runs
pub mod ReadingsLemmas
