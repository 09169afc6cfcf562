pub mod ForceLemmas
mod PagesLemmas
mod HeldPagesLemmas
pub mod ListedLemmas
pub mod UnderLemmas
pub mod RangesLemmas
pub mod EmittedLemmas
pub mod InLivesLemmas
pub mod LockstepIsLemmas
pub mod FollowedLemmas
pub mod LockedLemmas
pub mod LinesLemmas
mod AnswerLemmas
mod FirstGroupLemmas
pub mod InLifeLemmas
pub mod SinceMarkLemmas
pub mod EndsLemmas
pub mod JoinedLemmas
pub mod GroupSentLemmas
pub mod SentAlikeLemmas
pub mod GroupOrder
pub mod Held
pub mod Whole
pub mod Taken
pub mod Joined
pub mod Apart
pub mod HowMany
pub mod Untold
pub mod Turned
pub mod WhichTold
