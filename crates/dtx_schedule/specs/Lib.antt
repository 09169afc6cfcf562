pub mod Changes
pub mod Inside
pub mod Played
pub mod PlayedSoFar
pub mod Playout
pub mod TransmitterFiles
