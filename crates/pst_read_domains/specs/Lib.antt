pub mod Laws
pub mod WholeAheadLaws
pub mod RefusalsStayLaws
pub mod ReadValuesLaws
pub mod ReadActsLaws
pub mod Stood
pub mod ReadNodesLaws
