pub mod Plans
pub mod Orders
pub mod Headline
pub mod GivesBack
pub mod Network
