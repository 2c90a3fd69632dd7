pub mod Rooting
pub mod Lasting
pub mod Judging
