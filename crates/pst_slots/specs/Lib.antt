pub mod Decided
pub mod Laws
pub mod Stated
pub mod Listed
pub mod StatementsLaws
