mod AnswersLemmas
pub mod FeedFileLemmas
pub mod PacketFileLemmas
pub mod DvbBack
pub mod DvbChunks
pub mod DvbReads
pub mod Feeding
pub mod PlacedBytes
pub mod PlacedCounts
pub mod PlacedPackets
pub mod Recipe
