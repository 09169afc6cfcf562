pub mod Words
pub mod Rows
pub mod TransmitterTable
pub mod DamageTable
pub mod EventTable
pub mod NetTable
pub mod Plan
pub mod Sound
