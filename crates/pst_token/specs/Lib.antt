pub mod Spelling
pub mod Lexemes
pub mod Parts
pub mod Tokens
pub mod Lookup
pub mod Next
pub mod Order
pub mod Laws
