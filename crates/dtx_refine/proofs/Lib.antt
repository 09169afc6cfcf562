mod Steps
mod Takes
mod Ends
