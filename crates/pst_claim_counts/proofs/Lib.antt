pub mod Sets
pub mod Own
pub mod Children
pub mod Below
pub mod Refuse
pub mod More
pub mod Slotted
