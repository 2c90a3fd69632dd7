pub mod Facts
pub mod Spans
pub mod Widths
pub mod Meetings
pub mod Types
pub mod Found
pub mod Laws
