pub mod PacketsLemmas
pub mod Division
pub mod Shifts
pub mod BytesLemmas
