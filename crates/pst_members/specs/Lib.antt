pub mod Keys
pub mod Links
pub mod Kept
pub mod Rounds
pub mod Nodes
pub mod Found
