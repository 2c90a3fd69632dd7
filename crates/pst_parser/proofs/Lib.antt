pub mod ItemsLoop
pub mod UnitLaws
pub mod OneEnd
pub mod UnitAnswers
