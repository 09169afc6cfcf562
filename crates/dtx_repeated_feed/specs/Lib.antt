pub mod DoneWith
