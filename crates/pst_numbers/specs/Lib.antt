pub mod Meanings
pub mod NumberKeys
pub mod Numbered
pub mod Ranked
