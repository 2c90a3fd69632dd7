pub mod EndKeys
pub mod Twice
pub mod Broken
pub mod Judged
pub mod Based
