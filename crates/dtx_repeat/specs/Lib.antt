pub mod Restored
pub mod Lives
pub mod Repeater
pub mod GoingOn
pub mod Marks
