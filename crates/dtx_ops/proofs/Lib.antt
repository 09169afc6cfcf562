pub mod RefusingLemmas
mod NumbersLemmas
mod EntriesLemmas
mod PagingLemmas
pub mod DataLemmas
pub mod ReadingsLemmas
mod AddressesLemmas
mod DigitsLemmas
pub mod PassingLemmas
pub mod Bits
pub mod Writes
