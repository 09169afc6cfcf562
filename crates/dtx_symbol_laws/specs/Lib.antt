pub mod LevelledStream
pub mod RepeatedFiles
pub mod RestoredFile
pub mod SoftFields
