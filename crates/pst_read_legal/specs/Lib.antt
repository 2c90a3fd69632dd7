pub mod Laws
pub mod ReadNumbersLaws
pub mod ReadShapeLaws
