pub mod ActivityParts
pub mod ActivityPartFamilies
