mod MendingLemmas
pub mod ChosenLemmas
mod MarksLemmas
mod MendedLemmas
pub mod UnmarkedLemmas
pub mod GrowingLemmas
pub mod Marked
pub mod Weighed
pub mod Restored
pub mod Cancelled
pub mod Outcomes
pub mod Prepared
pub mod Zeros
pub mod Quotients
pub mod Gathered
pub mod Stands
pub mod Decoding
pub mod Packets
pub mod Mendings
pub mod Quiet
