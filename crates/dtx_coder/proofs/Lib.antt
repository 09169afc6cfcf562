pub mod BytesLemmas
pub mod LevelsLemmas
mod SlicesLemmas
pub mod SegmentsLemmas
pub mod CountsLemmas
pub mod StreamLemmas
pub mod NextLemmas
pub mod KeptLemmas
pub mod AlongLemmas
mod RunsLemmas
mod FlushedLemmas
mod AlignLemmas
pub mod BatchesLemmas
pub mod Packets
pub mod Sent
