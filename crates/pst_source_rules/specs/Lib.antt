pub mod Rooted
pub mod Judged
