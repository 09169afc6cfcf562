pub mod DoneTrial
pub mod MadeOrders
pub mod TrialLives
pub mod TrialSymbols
pub mod TrialWords
