pub mod Known
pub mod Found
pub mod Rounds
pub mod FieldRound
pub mod Decided
pub mod RunField
pub mod RunRounds
