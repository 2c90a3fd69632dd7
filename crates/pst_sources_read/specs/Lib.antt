pub mod Limits
pub mod Lexed
pub mod TextsLexed
pub mod Parsed
pub mod UnitsParsed
