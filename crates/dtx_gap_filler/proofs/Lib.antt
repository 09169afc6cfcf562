pub mod Given
pub mod Sent
pub mod Listed
pub mod AsSent
