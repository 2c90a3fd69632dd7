pub mod Listed
pub mod Held
pub mod Same
pub mod Stand
pub mod Blanks
pub mod Constrained
pub mod Known
