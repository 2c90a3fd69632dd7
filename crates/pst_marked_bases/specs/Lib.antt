pub mod Marked
pub mod Leads
pub mod Shown
pub mod Kept
