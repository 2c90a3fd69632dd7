pub mod Fault
pub mod Lexing
pub mod Finding
pub mod Scanning
pub mod Numbering
