pub mod Graph
pub mod Search
pub mod Apart
pub mod First
pub mod Numbers
pub mod Edges
