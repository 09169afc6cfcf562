pub mod Agreement
pub mod Acquired
pub mod Acquirer
pub mod Sent
