pub mod RestoredLemmas
pub mod GoingOnLemmas
pub mod LivesLemmas
pub mod MarksLemmas
pub mod Refilled
pub mod SeveralLemmas
