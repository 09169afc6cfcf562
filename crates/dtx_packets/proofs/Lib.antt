pub mod ChunksLemmas
pub mod PacketLemmas
pub mod Reading
