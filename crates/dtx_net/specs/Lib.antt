pub mod Steps
pub mod Lives
pub mod Standing
