pub mod Rewriting
pub mod Numbering
pub mod SameSlots
pub mod Standing
pub mod Below
