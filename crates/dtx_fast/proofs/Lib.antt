pub mod RecurrenceLemmas
pub mod ConnectionLemmas
pub mod QuotientLemmas
mod RepairLemmas
pub mod StageLemmas
mod RowsLemmas
pub mod Blocks
pub mod Mending
pub mod Parity
pub mod Syndromes
