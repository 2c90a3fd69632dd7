pub mod SetsWithin
pub mod ActivityPartEnds
pub mod ActivityPartsExplain
pub mod ActivityPartsAgain
pub mod ActivityPartsNoEnd
pub mod ActivityPartRules
pub mod ActivityLabelRules
pub mod ActivityTraversalRules
