pub mod ActivityRows
