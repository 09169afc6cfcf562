pub mod Hurt
pub mod Made
