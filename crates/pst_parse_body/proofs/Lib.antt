pub mod BodyExplains
pub mod BodyAgain
pub mod BodyNoEnd
pub mod BodyAnswering
pub mod CallRules
pub mod BodyRules
