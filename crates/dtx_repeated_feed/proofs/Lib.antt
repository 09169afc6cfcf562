pub mod RepeatedFeed
