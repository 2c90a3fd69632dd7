pub mod ActivityAnswering
