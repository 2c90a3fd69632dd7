pub mod Pairs
pub mod Counted
pub mod OneText
pub mod Units
