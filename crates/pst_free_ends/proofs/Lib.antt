pub mod Each
pub mod Rising
pub mod Restores
pub mod Spots
pub mod Links
pub mod Moves
pub mod Grows
pub mod Leaves
