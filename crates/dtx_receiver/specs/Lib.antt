pub mod Runs
pub mod Handed
pub mod Intervals
pub mod Bytes
pub mod Packets
pub mod Receiver
